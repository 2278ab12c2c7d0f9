pub mod Built
pub mod Frames
pub mod Ways
pub mod Adding
pub mod Passing
