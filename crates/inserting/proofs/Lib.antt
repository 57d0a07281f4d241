pub mod Inserting
pub mod Turning
