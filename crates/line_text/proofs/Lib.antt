pub mod Words
pub mod LineLaws
pub mod Numbers
pub mod Taking
pub mod Writes
pub mod Onward
