pub mod Stages
pub mod Numbered
pub mod Numbers
pub mod Steps
pub mod Sizes
pub mod Clauses
pub mod Problem
