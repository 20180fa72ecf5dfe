pub mod Shown
pub mod Good
pub mod Reports
pub mod Fitting
pub mod Decided
pub mod Asked
pub mod Checking
