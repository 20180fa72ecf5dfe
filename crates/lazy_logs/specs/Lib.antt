pub mod Refuted
pub mod Drops
