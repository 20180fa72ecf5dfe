pub mod Formulas
pub mod Straight
pub mod Kept
