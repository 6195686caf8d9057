pub mod AllNumbers
pub mod SealedHeader
pub mod SealedKeys
pub mod SealedDetermined
pub mod SealedOrder
pub mod SealedRuns
