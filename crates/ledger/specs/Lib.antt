pub mod Marks
pub mod Refusals
pub mod Rules
pub mod Ledgers
pub mod Mirrors
