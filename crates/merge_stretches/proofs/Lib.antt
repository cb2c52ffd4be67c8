pub mod StretchLaws
pub mod PlaceLaws
