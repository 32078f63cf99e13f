pub mod Counts
pub mod Ways
