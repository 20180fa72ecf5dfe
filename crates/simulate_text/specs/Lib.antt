pub mod Lines
pub mod Course
pub mod Text
pub mod Recorded
pub mod Safely
pub mod Unbroken
pub mod Reached
