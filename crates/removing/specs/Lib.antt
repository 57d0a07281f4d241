pub mod Close
pub mod Store
