pub mod Same
pub mod Sums
pub mod Numbering
pub mod Guessing
pub mod Cutting
pub mod Staying
