pub mod Counted
pub mod Listed
pub mod SameTokens
pub mod Found
pub mod Granting
