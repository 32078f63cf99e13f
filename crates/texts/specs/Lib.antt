pub mod Limits
pub mod Strings
pub mod Layers
pub mod Texts
