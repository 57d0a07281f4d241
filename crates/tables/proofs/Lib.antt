pub mod Packing
pub mod Unpacking
pub mod Naming
pub mod TableSizes
pub mod Standing
