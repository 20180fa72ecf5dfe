mod Continuing
mod Rows
mod Asking
mod Solvers
mod Evaluation
pub mod Proposals
pub mod Easy
