pub mod Obligations
pub mod Breaking
pub mod Starting
pub mod Refuting
