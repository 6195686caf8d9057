pub mod Table
pub mod Blank
pub mod inner
