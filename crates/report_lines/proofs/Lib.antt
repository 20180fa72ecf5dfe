pub mod Exact
pub mod Among
pub mod Clean
pub mod NumberFields
pub mod EntryWords
pub mod FirstWord
pub mod Loops
pub mod Finding
pub mod Splitting
pub mod WholeLines
mod ShortNumbers
pub mod HeadLines
pub mod LogLines
pub mod EvidenceLines
pub mod SpecNames
pub mod WitnessLines
pub mod BlockLines
pub mod StateLines
mod ShownCases
mod LineCases
mod RangeCases
