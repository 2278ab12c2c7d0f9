pub mod Lengths
pub mod Carried
pub mod Certified
pub mod Bounded
pub mod Unique
