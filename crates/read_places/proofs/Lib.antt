pub mod EndLaws
pub mod SearchLaws
