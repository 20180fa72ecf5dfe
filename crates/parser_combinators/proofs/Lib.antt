pub mod Part
pub mod Choice
pub mod Many
pub mod Loop
pub mod Pieces
pub mod KeyLemmas
pub mod TextFacts
