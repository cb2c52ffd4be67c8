pub mod WrittenContents
pub mod Passing
