pub mod JoinLaws
pub mod ReadLaws
