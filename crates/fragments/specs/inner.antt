pub mod Counting
pub mod Joining
pub mod Places
pub mod Writing
pub mod FitWaiting
