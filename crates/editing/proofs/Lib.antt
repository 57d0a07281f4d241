pub mod Chunks
pub mod Refusing
