pub mod Selector
pub mod Transform
pub mod Policy
pub mod Grammar
pub mod Ignored
pub mod Breaks
