pub mod Bag
pub mod Grammar
pub mod Ignored
pub mod Breaks
pub mod Plain
