pub mod Lines
pub mod Drilling
