pub mod Levels
pub mod LevelLaws
pub mod Finder
pub mod LevelRange
pub mod LevelSteps
pub mod CopiedLaws
