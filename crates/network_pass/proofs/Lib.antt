pub mod PassLaws
pub mod PassBoundLaws
