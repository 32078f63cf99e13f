pub mod Safe
pub mod Offsets
pub mod Pairs
pub mod Window
pub mod Gaps
pub mod Examples
pub mod Sources
pub mod Depths
