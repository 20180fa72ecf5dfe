pub mod Spans
pub mod Touched
