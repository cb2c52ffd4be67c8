pub mod Reply
pub mod Planning
