pub mod Entries
pub mod States
pub mod Sameness
pub mod Agreeing
pub mod Rising
pub mod Texts
