pub mod Kernel
pub mod Log
pub mod Log1p
