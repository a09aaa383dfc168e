pub mod Roots
pub mod Steps
pub mod Asinh
pub mod Acosh
pub mod Atanh
