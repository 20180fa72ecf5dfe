pub mod Takes
pub mod Bare
pub mod Keyed
