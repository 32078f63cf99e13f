pub mod Truth
pub mod Lists
pub mod Keep
pub mod Prefix
pub mod Words
