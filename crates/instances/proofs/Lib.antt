pub mod Triples
pub mod Equalities
pub mod Tuples
pub mod Twice
pub mod Pairs
pub mod Whole
pub mod Shared
pub mod Lists
