pub mod MergeText
pub mod MergedText
