pub mod Asinh
pub mod Acosh
pub mod Atanh
