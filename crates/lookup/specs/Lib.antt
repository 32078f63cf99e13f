pub mod Asked
pub mod Ranges
pub mod Strings
pub mod Examples
