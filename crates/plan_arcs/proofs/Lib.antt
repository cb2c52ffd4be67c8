pub mod ArcLaws
mod RowFillLaws
