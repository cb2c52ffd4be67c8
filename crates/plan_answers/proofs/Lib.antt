pub mod ConclusionLaws
pub mod SolvingLaws
