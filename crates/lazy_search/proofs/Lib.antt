pub mod Pieces
mod Sizes
mod Ranks
mod Adding
mod Standing
mod Implied
mod Placing
mod Behind
mod WholeAtoms
mod Logs
