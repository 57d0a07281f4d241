pub mod Paths
pub mod Enough
