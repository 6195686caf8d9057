pub mod Sizes
pub mod Made
pub mod Rows
