pub mod Following
pub mod Tables
