pub mod SheetLaws
pub mod AnswerLaws
pub mod AnswerConditions
pub mod FirstBytesLaws
