pub mod Chosen
pub mod Refuting
