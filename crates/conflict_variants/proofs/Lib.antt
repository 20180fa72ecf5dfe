pub mod TokenNames
pub mod Keying
pub mod Retyping
pub mod Distinct
pub mod Enough
pub mod WellFormed
