pub mod LineTaking
pub mod LinePutting
pub mod Advancing
