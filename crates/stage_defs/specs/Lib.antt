pub mod Settings
pub mod Parts
