pub mod Filling
pub mod Closest
pub mod Ranking
pub mod Leasts
pub mod Standing
pub mod Telling
pub mod Branches
pub mod Joining
