pub mod Chains
pub mod ChainLaws
