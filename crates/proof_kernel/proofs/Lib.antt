pub mod States
pub mod Lines
pub mod Runs
pub mod Pairs
pub mod Splitting
