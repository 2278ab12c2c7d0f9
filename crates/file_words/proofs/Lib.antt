pub mod Stores
pub mod Own
pub mod Numbered
pub mod Spots
pub mod Few
pub mod Over
pub mod Passing
pub mod Accepted
