pub mod Room
pub mod First
pub mod Calls
pub mod Reading
