pub mod Asks
pub mod Sound
pub mod Named
pub mod Nodes
pub mod Books
