pub mod Capped
pub mod Named
pub mod Padded
