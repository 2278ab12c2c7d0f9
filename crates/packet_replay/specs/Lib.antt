pub mod Conditions
pub mod Numbered
pub mod Carried
