pub mod Sorted
pub mod Runs
pub mod Cutting
pub mod Merging
pub mod Taking
