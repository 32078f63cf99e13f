pub mod LaidOut
pub mod Lengths
pub mod Source
pub mod Layered
pub mod Walked
pub mod Answers
pub mod Grafting
pub mod Paired
