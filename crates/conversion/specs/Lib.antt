pub mod Refusals
pub mod Conversions
pub mod FloatRules
pub mod Layers
