pub mod Words
pub mod Spells
