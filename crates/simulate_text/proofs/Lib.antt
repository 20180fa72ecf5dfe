mod Keeping
pub mod Safety
mod Carrying
mod Going
mod Unbroken
