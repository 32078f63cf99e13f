pub mod Values
pub mod Shift
pub mod Order
