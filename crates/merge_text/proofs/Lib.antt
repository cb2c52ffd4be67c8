pub mod JoinedLaws
