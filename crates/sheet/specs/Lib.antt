pub mod Sizes
pub mod Sheet
pub mod Cases
pub mod Questions
pub mod Lists
pub mod Solved
