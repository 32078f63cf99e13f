pub mod Below
pub mod Told
pub mod Table
pub mod Whole
pub mod Number
