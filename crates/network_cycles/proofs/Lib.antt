pub mod CycleTurnLaws
pub mod WalkSteps
