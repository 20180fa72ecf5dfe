pub mod Equals
pub mod Classed
pub mod Filling
pub mod Calls
pub mod Witnesses
