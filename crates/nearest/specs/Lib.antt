pub mod Summed
pub mod Columns
pub mod Closest
pub mod Ranks
pub mod Sole
