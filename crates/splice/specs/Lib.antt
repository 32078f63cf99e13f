pub mod Window
pub mod Parts
pub mod Counted
pub mod Kinds
pub mod Written
pub mod Spliced
