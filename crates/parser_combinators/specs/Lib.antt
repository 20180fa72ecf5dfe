pub mod Words
pub mod Texts
pub mod Read
pub mod Gives
pub mod Tokens
