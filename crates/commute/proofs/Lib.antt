pub mod Before
pub mod Orders
pub mod Demand3
pub mod Once
pub mod Flattened
pub mod Clauses
