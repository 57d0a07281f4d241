pub mod Answering
pub mod Bytes
