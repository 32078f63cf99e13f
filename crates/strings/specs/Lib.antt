pub mod Starts
pub mod Index
pub mod PlainContent
pub mod Shown
pub mod Examples
pub mod Lent
