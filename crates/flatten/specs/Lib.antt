pub mod Answer
pub mod Flat
pub mod Stages
