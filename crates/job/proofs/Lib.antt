pub mod Row
pub mod Any
pub mod Locals
pub mod Verdict
pub mod Packing
pub mod Accepted
pub mod Alike
pub mod Samples
