pub mod Showing
pub mod Lawful
pub mod Listing
pub mod Opening
