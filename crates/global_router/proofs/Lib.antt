pub mod Packed
pub mod Unpacked
pub mod Answering
pub mod Reading
pub mod Gathered
