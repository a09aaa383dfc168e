pub mod Annex
pub mod Values
