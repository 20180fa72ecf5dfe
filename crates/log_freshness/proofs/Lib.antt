pub mod Spans
pub mod Marks
pub mod Slots
pub mod Index
pub mod Masks
