pub mod LimitTable
pub mod LimitTableLaws
