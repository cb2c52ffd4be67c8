pub mod Page
pub mod PageLines
pub mod SheetPages
pub mod Pages
