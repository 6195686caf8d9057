pub mod LineLaws
pub mod SplitLaws
pub mod AnswerLaws
pub mod CallLaws
pub mod ReadingLaws
pub mod ProgramLaws
pub mod RoomLaws
