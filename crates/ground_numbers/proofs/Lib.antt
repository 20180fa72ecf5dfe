pub mod Lookups
pub mod Sameness
pub mod Growing
pub mod Stepping
pub mod Staged
pub mod Meeting
pub mod Placed
mod Example
mod Valued
mod Meant
mod Folding
mod Clausal
mod Named
mod Whole
mod Summed
mod Moderate
mod Groups
mod Small
mod Arguments
pub mod GoodRows
