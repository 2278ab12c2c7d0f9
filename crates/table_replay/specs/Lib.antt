pub mod Forwarding
pub mod Walked
pub mod Tabled
