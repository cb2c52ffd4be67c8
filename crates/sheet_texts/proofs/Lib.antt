pub mod SheetTextLaws
