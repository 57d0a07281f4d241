pub mod Closing
pub mod Removing
pub mod Tidying
pub mod Passing
