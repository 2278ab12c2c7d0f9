pub mod Table
pub mod Text
pub mod Reading
pub mod Seen
