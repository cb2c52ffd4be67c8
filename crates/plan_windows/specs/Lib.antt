pub mod CutSheet
pub mod Windows
pub mod Narrowing
