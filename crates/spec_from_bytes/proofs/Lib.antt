mod Told
mod PartsTold
mod OneTree
pub mod Reasons
mod Least
mod Unread
