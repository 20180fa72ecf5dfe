pub mod Equalities
pub mod Pairs
pub mod Congruent
pub mod Ground
pub mod Entry
