pub mod Overwrite
pub mod Words
pub mod Loops
pub mod Parts
pub mod Apart
