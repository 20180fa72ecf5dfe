pub mod Faults
pub mod Ports
pub mod Written
pub mod Memory
pub mod Ending
pub mod Told
