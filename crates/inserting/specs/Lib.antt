pub mod Insert
pub mod Route
