pub mod Least
pub mod Held
pub mod State
pub mod Blank
pub mod inner
