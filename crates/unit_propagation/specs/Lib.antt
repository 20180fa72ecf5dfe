pub mod Watches
pub mod Ready
