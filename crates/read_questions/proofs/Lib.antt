pub mod ArrayLaws
pub mod SpanLaws
pub mod LineLaws
pub mod AcceptedLaws
pub mod RefusalLaws
pub mod ConcludedLaws
