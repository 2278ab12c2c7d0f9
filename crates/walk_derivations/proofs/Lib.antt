pub mod Parting
pub mod Deriving
pub mod Ending
