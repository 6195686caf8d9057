pub mod Opened
pub mod Search
pub mod Entries
