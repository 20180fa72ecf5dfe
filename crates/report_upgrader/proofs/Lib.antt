mod Slots
pub mod Names
pub mod Runs
mod Backwards
mod Reports
mod Passes
mod Follows
mod FirstWords
mod LineKinds
mod Plans
mod Gathered
mod LogBytes
mod Texts
mod Steps
mod Room
pub mod Accepted
mod Held
