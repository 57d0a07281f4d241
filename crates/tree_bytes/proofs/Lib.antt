pub mod Fields
pub mod Places
pub mod Counting
pub mod Whole
pub mod Samples
