pub mod Reader
pub mod Resolving
