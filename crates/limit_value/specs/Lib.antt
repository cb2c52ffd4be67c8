pub mod Tightened
