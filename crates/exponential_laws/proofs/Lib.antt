pub mod Kernel
pub mod Ladder
pub mod Cases
pub mod Range
pub mod Double
pub mod Expm1
pub mod Exp
