pub mod Collection
pub mod Gathering
pub mod inner
