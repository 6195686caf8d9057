pub mod Sizes
pub mod Keys
pub mod SealedFrame
pub mod SealedFragment
pub mod Outer
pub mod OuterFragment
pub mod Number10
pub mod inner
