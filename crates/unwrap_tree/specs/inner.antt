pub mod AllReached
pub mod Joins
pub mod Reached
pub mod Entries
pub mod Source
