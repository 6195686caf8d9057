pub mod Octets
pub mod Adding
pub mod Suites
