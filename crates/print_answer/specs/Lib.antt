pub mod Reply
pub mod Printing
