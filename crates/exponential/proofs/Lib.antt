pub mod Reach
pub mod Special
