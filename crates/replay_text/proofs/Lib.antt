pub mod Going
mod Asked
mod States
pub mod Safety
