pub mod Sides
pub mod Sites
pub mod Naming
