pub mod Product
pub mod Powers
pub mod Ends
pub mod Steps
pub mod Signs
pub mod Whole
