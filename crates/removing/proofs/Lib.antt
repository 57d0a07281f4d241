pub mod Places
pub mod Moving
pub mod Testing
pub mod Lending
