pub mod Sets
pub mod Marking
pub mod Resolving
