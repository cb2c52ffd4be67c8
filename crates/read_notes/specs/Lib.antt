pub mod Note
pub mod Readers
pub mod ReaderLaws
