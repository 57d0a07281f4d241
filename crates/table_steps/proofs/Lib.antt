pub mod Stepping
pub mod Sizes
