pub mod Hops
pub mod Listed
