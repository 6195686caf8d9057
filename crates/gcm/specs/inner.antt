pub mod Halves
pub mod Multiples
pub mod Puts
pub mod Judged
