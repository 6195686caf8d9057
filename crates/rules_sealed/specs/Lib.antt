pub mod SealingKey
pub mod SealedOutcome
pub mod SealedRun
pub mod SealedOrder
pub mod SealedSays
