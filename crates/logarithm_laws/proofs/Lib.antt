pub mod Whole
pub mod Cutting
pub mod Kernel
pub mod Log
pub mod Log1p
pub mod Double
pub mod Single
