pub mod Names
pub mod Stretches
