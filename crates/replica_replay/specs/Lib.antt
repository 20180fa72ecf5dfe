pub mod Tried
pub mod Held
pub mod Refusals
pub mod Steps
pub mod Holding
pub mod Replayed
