pub mod WholeRoot
pub mod NearestRoot
