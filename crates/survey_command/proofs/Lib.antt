pub mod Counting
pub mod Surveyed
