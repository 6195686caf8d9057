pub mod TableLaws
pub mod NextLaws
pub mod RetiringLaws
pub mod FrameLaws
pub mod Turns
pub mod Renewed
