pub mod Held
pub mod Digits
pub mod Functions
pub mod Refusals
pub mod Replies
pub mod Laws
pub mod Cutting
