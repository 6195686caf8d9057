pub mod Line
pub mod Replay
pub mod Write
pub mod Claims
pub mod inner
