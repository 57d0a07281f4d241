pub mod Scanning
pub mod Planning
pub mod Owed
pub mod Plans
pub mod Lending
pub mod Reading
