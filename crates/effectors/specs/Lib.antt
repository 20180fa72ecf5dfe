pub mod Effect
pub mod Beyond
pub mod Places
pub mod Reaching
pub mod Outside
pub mod Refusal
pub mod Spare
