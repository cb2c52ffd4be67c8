pub mod Places
pub mod PlacesLaws
pub mod LineOfUnit
