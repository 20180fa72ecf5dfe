-- The definitions of the crate, in the order in which they stand on one another.
pub mod Fractions
pub mod Points
pub mod Splitting
pub mod Driven
pub mod Ceilings
pub mod Deciding
pub mod Descent
pub mod Stops
pub mod Bounds
pub mod Descending
pub mod Listed
