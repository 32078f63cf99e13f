pub mod Numbers
pub mod Fits
pub mod Window
pub mod Reading
pub mod Stages
pub mod Inside
