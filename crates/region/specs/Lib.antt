pub mod Chosen
pub mod Stage
pub mod Entry
pub mod Passage
