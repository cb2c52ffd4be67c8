pub mod MergeLaws
pub mod CombineLaws
pub mod AcceptedLaws
