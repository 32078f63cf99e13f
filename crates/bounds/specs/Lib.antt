pub mod Incremental
pub mod Walk
pub mod Search
