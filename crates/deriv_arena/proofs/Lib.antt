pub mod Weights
pub mod Segments
pub mod Examples
