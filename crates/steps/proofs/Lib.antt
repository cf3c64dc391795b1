pub mod Visits
pub mod Carries
pub mod KindsLeft
pub mod Again
