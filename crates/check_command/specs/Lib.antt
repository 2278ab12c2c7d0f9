pub mod Documents
pub mod Lines
pub mod Checking
pub mod Replaying
pub mod Examining
