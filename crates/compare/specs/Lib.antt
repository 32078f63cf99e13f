pub mod Compare
pub mod Order
