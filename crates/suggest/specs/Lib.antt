pub mod Pairs
pub mod Answers
pub mod Texts
pub mod Theorem
pub mod Writing
