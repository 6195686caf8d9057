pub mod Places
pub mod Deletion
pub mod Facts
