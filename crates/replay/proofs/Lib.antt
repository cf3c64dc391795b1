pub mod Lists
pub mod Onward
pub mod Parts
