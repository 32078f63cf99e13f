pub mod Inspect
pub mod Answers
pub mod Cut
pub mod Read
