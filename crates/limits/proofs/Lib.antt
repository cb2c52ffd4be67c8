pub mod Forward
pub mod Rules
