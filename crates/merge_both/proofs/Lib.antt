pub mod PartLaws
pub mod BothLaws
