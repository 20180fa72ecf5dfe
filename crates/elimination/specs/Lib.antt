-- The definitions of the crate, in the order in which they stand on one another.
pub mod Places
pub mod Naming
pub mod Fingerprints
pub mod Pairs
pub mod Tableaux
pub mod Stops
pub mod Sides
pub mod Needed
