pub mod Full
