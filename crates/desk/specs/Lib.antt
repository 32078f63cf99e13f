pub mod Charging
pub mod Ran
