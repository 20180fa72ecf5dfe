pub mod Renaming
pub mod Tested
mod Answered
