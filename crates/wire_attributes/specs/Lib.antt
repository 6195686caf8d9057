pub mod Attribute
pub mod Place
pub mod Tree
pub mod Layout
pub mod Answers
pub mod Grammar
pub mod Breaks
