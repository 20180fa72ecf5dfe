pub mod Rounds
pub mod Renaming
