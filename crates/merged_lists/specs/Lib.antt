pub mod Widths
pub mod Sizes
pub mod Fitted
pub mod Lists
