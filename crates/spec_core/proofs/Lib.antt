pub mod Lists
pub mod Positions
pub mod Parts
pub mod Places
pub mod Choosing
pub mod Fitting
pub mod States
pub mod Members
pub mod Operations
pub mod Agreeing
pub mod Forcing
mod Rest
