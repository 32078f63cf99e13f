pub mod Row
pub mod State
pub mod Tables
pub mod Added
pub mod Room
pub mod Lookups
pub mod Begun
pub mod Recalled
