pub mod Places
pub mod Comparing
pub mod Classes
pub mod Found
pub mod Related
pub mod Elements
