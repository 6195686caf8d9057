pub mod Tries
pub mod Named
pub mod Known
pub mod Answer
pub mod Openers
pub mod Ready
