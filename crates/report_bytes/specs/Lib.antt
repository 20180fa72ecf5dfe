pub mod Bytes
pub mod Showing
pub mod Reading
pub mod Collecting
