pub mod UpgradedLogs
pub mod Agreement
pub mod Reports
pub mod Plans
pub mod Passing
pub mod Upgrading
