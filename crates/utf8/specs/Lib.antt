pub mod Skips
pub mod Blocks
