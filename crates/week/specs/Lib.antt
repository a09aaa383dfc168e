pub mod Weeks
pub mod Law
