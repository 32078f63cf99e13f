pub mod Ends
pub mod Survives
pub mod EndSearch
pub mod Unmatched
pub mod StartSearch
pub mod Walks
pub mod Examples
pub mod Edits
