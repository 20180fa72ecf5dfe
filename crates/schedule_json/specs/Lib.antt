pub mod Parts
pub mod Checks
pub mod Worlds
pub mod Recorded
pub mod Schedules
pub mod Fitting
pub mod Texts
