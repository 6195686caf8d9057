pub mod Policies
pub mod Keyed
