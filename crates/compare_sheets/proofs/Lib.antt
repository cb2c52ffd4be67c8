pub mod ValuesLaws
pub mod AlongLaws
pub mod ClosingLaws
pub mod RelistedLaws
pub mod LooserLaws
