pub mod Order
pub mod Structs
