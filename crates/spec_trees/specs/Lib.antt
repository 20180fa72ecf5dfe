pub mod Form
pub mod Spelling
pub mod Trees
pub mod Depth
pub mod Place
pub mod Layout
