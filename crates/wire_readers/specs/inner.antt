pub mod Values
pub mod Policies
pub mod Bodies
pub mod Bags
pub mod Payloads
