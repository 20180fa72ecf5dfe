pub mod Rules
pub mod Evidence
pub mod Answers
pub mod Atoms
