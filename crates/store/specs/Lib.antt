pub mod Pools
pub mod Stored
pub mod Standing
pub mod Lengths
