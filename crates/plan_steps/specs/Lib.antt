pub mod Closing
pub mod PassedLaws
pub mod ClosingLaws
pub mod Filling
pub mod FillingLaws
pub mod RingLaws
