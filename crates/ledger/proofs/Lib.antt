pub mod Each
pub mod Keeping
pub mod Summing
pub mod Mirroring
