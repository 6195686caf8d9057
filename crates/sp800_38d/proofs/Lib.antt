pub mod Computing
pub mod AllSamples
pub mod GctrLaws
pub mod SealLaws
pub mod DecryptionLaws
pub mod UnsealLaws
