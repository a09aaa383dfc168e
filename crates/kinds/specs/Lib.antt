pub mod Counts
pub mod Kinds
pub mod Floats
pub mod Cents
pub mod CentsLaws
pub mod FloatLaws
