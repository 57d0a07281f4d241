pub mod Parts
pub mod Room
pub mod Cut
