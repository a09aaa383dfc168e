pub mod Scores
pub mod Readings
pub mod Weeks
