pub mod TreeBytes
pub mod Show
