pub mod Texts
pub mod Words
pub mod Fronts
pub mod Whole
