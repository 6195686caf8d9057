pub mod Limits
pub mod Algorithms
pub mod Rooms
pub mod Kinds
