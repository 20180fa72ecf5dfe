pub mod Products
pub mod Updates
pub mod Joined
