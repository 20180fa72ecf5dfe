pub mod Index
pub mod Named
pub mod Same
pub mod Alike
pub mod Grants
