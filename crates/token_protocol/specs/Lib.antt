pub mod Ids
pub mod Manager
pub mod Node
pub mod Network
pub mod Executed
pub mod Kept
