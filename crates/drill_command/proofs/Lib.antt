pub mod Told
pub mod Replayed
