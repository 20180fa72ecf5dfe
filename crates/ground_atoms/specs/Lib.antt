pub mod Keys
pub mod Symbols
pub mod Known
pub mod Sizes
pub mod Staying
pub mod Making
pub mod Formulas
pub mod Calls
