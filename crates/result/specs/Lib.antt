pub mod Checked
pub mod Parts
pub mod Books
pub mod Grafting
pub mod Whole
pub mod Stages
pub mod Merging
