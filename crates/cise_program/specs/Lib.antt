pub mod Outside
pub mod Words
pub mod commands
pub mod Answer
pub mod Headline
