pub mod Text
pub mod Window
pub mod Layers
