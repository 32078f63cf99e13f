pub mod Pairs
pub mod Long
pub mod Bisection
pub mod Ordered
