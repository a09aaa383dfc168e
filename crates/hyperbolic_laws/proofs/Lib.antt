pub mod Tanh
pub mod Expo2
pub mod Sinh
pub mod Cosh
