pub mod Values
pub mod Uses
pub mod UseNumbers
pub mod Shapes
pub mod Words
pub mod Runs
pub mod Sizes
