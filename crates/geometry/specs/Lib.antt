pub mod Geometry
pub mod Signed
pub mod Laws
pub mod Intervals
