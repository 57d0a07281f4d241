pub mod Lines
pub mod Enough
pub mod Samples
