pub mod Reading
pub mod Loops
mod Names
mod Results
pub mod Fits
