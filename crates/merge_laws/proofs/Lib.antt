pub mod TextLaws
pub mod Merged
