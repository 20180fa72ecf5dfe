pub mod Assignment
pub mod Conflict
pub mod Rivals
