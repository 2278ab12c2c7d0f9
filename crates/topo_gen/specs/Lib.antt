pub mod Tunnels
pub mod Counts
