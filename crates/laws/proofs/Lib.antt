pub mod Ceiling
pub mod Most
pub mod Kept
pub mod Desk
