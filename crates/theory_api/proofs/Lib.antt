pub mod Standing
pub mod Refuted
pub mod Ends
pub mod Cancels
