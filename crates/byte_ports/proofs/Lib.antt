mod Loops
pub mod Endings
pub mod Sources
