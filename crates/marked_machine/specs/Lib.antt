pub mod Marks
pub mod Product
pub mod MarkedRuns
pub mod Sites
