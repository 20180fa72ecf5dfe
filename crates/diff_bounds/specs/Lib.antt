-- The definitions of the crate, in the order in which they stand on one another.
pub mod Differences
pub mod Spans
pub mod Edges
pub mod Walks
pub mod States
pub mod Values
pub mod Cycles
pub mod Fitting
pub mod Distances
