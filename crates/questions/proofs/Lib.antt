pub mod FirstNoLaws
pub mod VerdictLaws
