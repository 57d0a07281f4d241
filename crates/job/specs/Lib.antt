pub mod Layout
pub mod Job
pub mod Reading
pub mod Accepted
pub mod Alike
