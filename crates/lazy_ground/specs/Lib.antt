pub mod Pairs
pub mod Lazy
pub mod Equal
pub mod Kept
pub mod Cache
pub mod Named
pub mod Front
