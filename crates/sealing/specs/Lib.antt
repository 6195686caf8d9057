pub mod Unsealing
pub mod Pieces
pub mod inner
