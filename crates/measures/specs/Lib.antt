pub mod Standing
pub mod Children
pub mod Chains
