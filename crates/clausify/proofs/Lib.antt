pub mod Below
pub mod Reading
pub mod Plain
pub mod Written
pub mod Appending
pub mod Raised
mod Implying
