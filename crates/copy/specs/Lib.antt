pub mod Copying
pub mod Examples
