pub mod Plan
pub mod Routing
pub mod Demand3
pub mod Jobs
pub mod Tables
