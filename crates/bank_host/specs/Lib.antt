pub mod Bank
pub mod Calls
pub mod Running
pub mod Carried
