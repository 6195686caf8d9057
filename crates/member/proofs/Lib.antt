pub mod ReplyLaws
pub mod StandingLaws
pub mod HandingLaws
pub mod BlockLaws
pub mod Printing
pub mod RunLaws
