pub mod Loops
pub mod AttributeLaws
pub mod SplitGrammar
pub mod GrammarLaws
pub mod BreakLaws
pub mod AttributeTable
pub mod PlainLaws
