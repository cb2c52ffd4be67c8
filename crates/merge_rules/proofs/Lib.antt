pub mod FrontLaws
pub mod ColumnLaws
pub mod PassedLaws
pub mod PairLaws
pub mod CombiningLaws
