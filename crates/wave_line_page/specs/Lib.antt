pub mod LinePage
pub mod LinePageLaws
