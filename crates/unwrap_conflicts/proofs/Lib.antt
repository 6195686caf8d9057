pub mod Clashing
pub mod ConflictLaws
