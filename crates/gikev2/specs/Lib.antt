pub mod Member
pub mod Receive
pub mod ReceiveSealed
pub mod ReceiveFragment
pub mod inner
