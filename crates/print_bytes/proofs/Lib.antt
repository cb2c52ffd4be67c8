pub mod WritingLaws
pub mod DigitLaws
pub mod LineParts
