pub mod Calls
pub mod Reader
pub mod inner
