pub mod AskingLaws
pub mod OrderLaws
pub mod ListedLaws
pub mod SolvableLaws
pub mod RoomsAskedLaws
