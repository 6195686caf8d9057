pub mod Sizes
pub mod BagAt
pub mod KeyLaws
pub mod BagLaws
pub mod PlaceLaws
