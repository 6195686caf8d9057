pub mod Opening
pub mod inner
