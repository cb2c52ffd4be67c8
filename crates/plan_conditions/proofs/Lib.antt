pub mod ConditionLaws
pub mod SharedConditions
pub mod Conditions
pub mod DecideConditions
pub mod SeatConditions
pub mod SameAnswers
