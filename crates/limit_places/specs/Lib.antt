pub mod LentTableLaws
pub mod Sweep
