pub mod InUse
pub mod Site
pub mod Once
pub mod Table
pub mod Pairing
