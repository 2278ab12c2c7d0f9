pub mod Zipped
pub mod Below
pub mod Listed
