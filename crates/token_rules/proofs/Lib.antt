pub mod Assigning
pub mod Tokens
