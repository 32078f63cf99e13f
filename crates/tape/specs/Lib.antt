pub mod Placed
pub mod Numbers
pub mod Accepted
pub mod Held
pub mod Opened
pub mod StringBytes
