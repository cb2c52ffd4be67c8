pub mod CycleLaws
pub mod WalkLaws
