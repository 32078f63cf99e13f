pub mod Moved
pub mod Orders
