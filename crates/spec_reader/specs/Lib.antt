pub mod Reading
pub mod Bracket
pub mod Refused
