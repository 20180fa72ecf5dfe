pub mod Sites
pub mod FaultRules
pub mod Fault
pub mod Scope
pub mod Terms
pub mod Formulas
pub mod Lines
pub mod Items
