pub mod Single
pub mod Expm1f
