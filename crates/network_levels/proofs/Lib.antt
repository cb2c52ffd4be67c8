pub mod NextLevelLaws
