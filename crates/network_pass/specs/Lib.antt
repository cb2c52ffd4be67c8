pub mod Pass
pub mod PassFront
pub mod PassBounds
