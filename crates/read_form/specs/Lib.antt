pub mod Kinds
pub mod Grid
pub mod GridLaws
pub mod Met
pub mod MetLaws
pub mod Reader
