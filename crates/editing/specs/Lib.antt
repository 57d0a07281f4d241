pub mod Edits
pub mod Editing
