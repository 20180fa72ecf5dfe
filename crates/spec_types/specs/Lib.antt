pub mod faults
pub mod Views
pub mod Refusals
