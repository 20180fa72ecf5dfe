pub mod Conflicts
pub mod Early
pub mod Reduced
pub mod Exhausted
