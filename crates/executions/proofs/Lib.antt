pub mod Lists
pub mod Convergence
pub mod Systems
pub mod Growth
pub mod Closed
pub mod Folding
pub mod Safety
