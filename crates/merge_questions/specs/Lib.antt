pub mod Merging
pub mod FirstLaws
pub mod RefusalLaws
