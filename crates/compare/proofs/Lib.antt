pub mod CallLaws
pub mod KnownLaws
pub mod PageLaws
pub mod Comparisons
