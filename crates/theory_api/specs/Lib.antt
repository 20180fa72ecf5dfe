pub mod Chosen
pub mod Elimination
pub mod Laws
pub mod Ends
