pub mod Behind
pub mod Decimal
pub mod Spelled
