pub mod Band
pub mod Constants
pub mod Double
pub mod Literals
pub mod Odd
pub mod Polynomial
pub mod Range
pub mod Signs
