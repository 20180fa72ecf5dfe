pub mod Clearing
pub mod Held
pub mod Spans
pub mod Freshness
pub mod Index
pub mod Blocks
pub mod Puts
