pub mod Front
pub mod Determined
pub mod Turns
pub mod Loading
pub mod Found
pub mod Answering
pub mod Opening
