mod Implied
mod Meeting
mod Added
