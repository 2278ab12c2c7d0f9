pub mod Rules
pub mod Exits
pub mod Overtaken
pub mod Least
