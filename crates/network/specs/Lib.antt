pub mod Network
pub mod Cycles
pub mod Closure
pub mod Table
pub mod RowStep
pub mod Bounds
