pub mod After
pub mod View
pub mod Carried
