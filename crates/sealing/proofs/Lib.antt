pub mod CopyLaws
pub mod UnderLaws
pub mod PieceLaws
pub mod Determined
