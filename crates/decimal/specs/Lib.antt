pub mod Text
pub mod Decimal
pub mod Padded
pub mod Written
pub mod Laws
