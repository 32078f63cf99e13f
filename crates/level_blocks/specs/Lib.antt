pub mod Level
pub mod Blocks
