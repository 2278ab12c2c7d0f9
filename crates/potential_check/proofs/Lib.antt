pub mod Zipped
pub mod Placing
pub mod Ordering
pub mod Lifting
pub mod Telling
