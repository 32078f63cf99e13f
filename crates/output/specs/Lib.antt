pub mod Answer
pub mod Cleared
