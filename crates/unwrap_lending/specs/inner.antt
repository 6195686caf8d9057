pub mod Lending
pub mod Named
