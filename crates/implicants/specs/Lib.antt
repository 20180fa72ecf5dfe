pub mod Implicants
pub mod Choosing
