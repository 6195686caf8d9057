pub mod Clock
pub mod Entry
pub mod Blank
pub mod DueSays
