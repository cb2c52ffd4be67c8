pub mod LimitedLaws
