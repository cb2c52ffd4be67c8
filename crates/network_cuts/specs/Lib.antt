pub mod Cut
pub mod Sink
pub mod Decider
pub mod CutLaws
