pub mod Same
pub mod Numbers
pub mod Values
