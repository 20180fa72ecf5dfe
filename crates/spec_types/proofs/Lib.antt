mod Entries
mod FaultLists
pub mod Least
mod Lists
mod Setting
