pub mod Linked
pub mod Pieces
pub mod Books
pub mod Rows
pub mod Among
