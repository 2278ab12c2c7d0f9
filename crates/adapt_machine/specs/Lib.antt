pub mod Machine
pub mod Walks
