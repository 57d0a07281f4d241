pub mod Held
pub mod Stored
pub mod Calls
pub mod Reading
pub mod Editing
