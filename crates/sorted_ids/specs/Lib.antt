pub mod Row
pub mod Has
