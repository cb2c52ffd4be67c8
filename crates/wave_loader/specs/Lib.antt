pub mod Named
pub mod NamedLaws
