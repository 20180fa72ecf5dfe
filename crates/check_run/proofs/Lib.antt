mod Verdicts
mod Shown
mod Refutations
mod Blocks
mod Whole
mod Solvers
