pub mod SheetText
pub mod Samples
