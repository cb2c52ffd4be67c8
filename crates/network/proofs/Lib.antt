pub mod NetworkLaws
pub mod ClosureLaws
pub mod TableLaws
pub mod BoundLaws
