pub mod FragmentOutcome
pub mod FragmentOrder
pub mod FragmentSays
pub mod FragmentRun
pub mod AnyOrder
pub mod CaseSays
