pub mod PageLaws
pub mod PageLinesLaws
pub mod PageBounds
pub mod PagesLaws
pub mod RingWalkLaws
