pub mod Refusals
pub mod Steps
pub mod Splits
pub mod Evidence
pub mod Kept
