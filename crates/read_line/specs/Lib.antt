pub mod Content
pub mod Line
pub mod Said
