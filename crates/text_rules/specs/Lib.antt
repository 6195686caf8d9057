pub mod Characters
pub mod Hex
pub mod Lines
pub mod Input
pub mod Answer
pub mod Transcript
