pub mod First
pub mod Rules
pub mod Faults
pub mod Verdicts
