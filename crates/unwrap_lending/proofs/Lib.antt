pub mod HeldLaws
pub mod Blocks
pub mod Filling
pub mod Naming
