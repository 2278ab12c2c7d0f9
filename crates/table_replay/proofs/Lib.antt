pub mod Places
pub mod One
pub mod Leaving
pub mod Plain
pub mod Slots
pub mod Turning
pub mod Answering
