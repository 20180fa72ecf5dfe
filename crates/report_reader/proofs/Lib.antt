pub mod Ordered
pub mod FewElements
pub mod States
pub mod Kept
pub mod Answering
pub mod ResolveLines
mod PlainNumbers
