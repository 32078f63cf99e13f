pub mod Put
pub mod Decimal
pub mod Text
pub mod Quoted
pub mod Input
