pub mod Statuses
pub mod Theory
pub mod Opening
pub mod Loops
pub mod Searching
pub mod Starting
pub mod RootsFitting
pub mod Turning
