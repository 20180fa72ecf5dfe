pub mod Spanning
pub mod Bounding
pub mod Edging
pub mod Pushing
pub mod Starting
pub mod RelaxingLemmas
pub mod Backing
pub mod Seeing
pub mod Cycling
pub mod Modelling
mod Distancing
pub mod FittingLemmas
