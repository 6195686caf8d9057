pub mod AddressLaws
pub mod WalkLaws
pub mod SaLaws
pub mod NumberLaws
pub mod FactLaws
pub mod GivenLaws
