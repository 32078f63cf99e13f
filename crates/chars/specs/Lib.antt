pub mod Chars
pub mod Leads
