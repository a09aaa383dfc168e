pub mod Expm1f
pub mod Log1pf
