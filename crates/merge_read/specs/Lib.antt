pub mod Behind
pub mod BehindLaws
