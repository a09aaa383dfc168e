pub mod Scales
pub mod Laws
