pub mod Sound
pub mod Complete
pub mod Lines
pub mod Whole
