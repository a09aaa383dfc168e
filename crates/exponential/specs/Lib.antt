pub mod Ln2
pub mod Expm1
pub mod Counts
pub mod Exp
