pub mod Fronts
pub mod FrontsLaws
pub mod WholeLaws
