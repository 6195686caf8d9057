pub mod Sizes
pub mod Gathering
pub mod Membership
pub mod Entering
pub mod Standing
pub mod Agreeing
pub mod NoEntries
pub mod SourceLaws
