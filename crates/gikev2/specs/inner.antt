pub mod Sealing
pub mod Gathering
