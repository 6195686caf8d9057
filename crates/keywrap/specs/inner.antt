pub mod Room
pub mod Blank
