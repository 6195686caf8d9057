pub mod Reply
pub mod Standing
pub mod Handing
pub mod Taking
pub mod Turns
pub mod Printed
