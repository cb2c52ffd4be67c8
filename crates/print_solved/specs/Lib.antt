pub mod BytesLaws
pub mod CallLaws
pub mod OwnLaws
