pub mod Levels
pub mod Code
pub mod Links
pub mod Kept
pub mod Nearest
pub mod Holding
