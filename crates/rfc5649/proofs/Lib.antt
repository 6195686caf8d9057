pub mod AesKeyWrapExamples
pub mod Registers
pub mod Blocks
pub mod Steps
pub mod Wrapping
pub mod Determined
pub mod Checks
pub mod Decided
