-- What each command answers.
pub mod Check
pub mod Verify
pub mod Upgrade
pub mod Replay
pub mod Simulate
pub mod Suggest
pub mod Spell
pub mod Sample
