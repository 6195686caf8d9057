pub mod Steps
pub mod Wrap
pub mod Opens
pub mod inner
