pub mod Calls
pub mod Limited
pub mod Lines
pub mod Defined
pub mod Rules
