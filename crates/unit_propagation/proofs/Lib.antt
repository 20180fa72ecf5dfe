mod Among
mod Resting
mod Steady
mod Visiting
mod Following
pub mod Changing
