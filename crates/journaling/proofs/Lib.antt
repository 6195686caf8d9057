pub mod PutLaws
pub mod TakeLaws
pub mod BlockLaws
pub mod Blocks
