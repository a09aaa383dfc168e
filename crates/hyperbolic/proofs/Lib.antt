pub mod Special
pub mod Oddness
