pub mod Naming
pub mod Leaf
pub mod Branch
