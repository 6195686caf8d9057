pub mod BagLaws
pub mod BagGrammar
pub mod AlikeLaws
pub mod BagBreaks
pub mod PlainLaws
