pub mod Runs
pub mod Ends
pub mod Found
pub mod Again
pub mod Walked
pub mod Examples
