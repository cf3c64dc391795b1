pub mod Whole
pub mod Sized
pub mod Demands
pub mod Unsound
pub mod Samples
