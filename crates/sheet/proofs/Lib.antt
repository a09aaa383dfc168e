pub mod Filling
pub mod Turning
pub mod Means
