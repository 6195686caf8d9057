pub mod RowLaws
pub mod TestLaws
pub mod FoldLaws
pub mod SumLaws
pub mod PolicyLaws
