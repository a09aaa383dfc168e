pub mod Counting
pub mod Double
