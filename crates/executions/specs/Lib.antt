pub mod Orders
pub mod Executions
pub mod Convergence
pub mod Ranges
