pub mod Balance
pub mod Until
pub mod Book
