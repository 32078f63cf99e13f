pub mod Merging
pub mod Answered
pub mod Ceiling
