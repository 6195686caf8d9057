pub mod Joining
pub mod Opening
pub mod Walking
pub mod Progress
pub mod Reaching
pub mod Trying
pub mod OpenersLaws
