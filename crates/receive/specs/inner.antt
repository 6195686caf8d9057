pub mod Passing
pub mod Opening
pub mod Saying
