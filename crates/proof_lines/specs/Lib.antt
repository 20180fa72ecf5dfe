pub mod Numbers
pub mod Clauses
pub mod Marks
pub mod Forms
pub mod Problems
pub mod Forced
