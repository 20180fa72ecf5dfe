pub mod Verdicts
pub mod Events
pub mod Texts
pub mod Feeding
pub mod Gathering
