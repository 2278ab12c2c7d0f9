pub mod Lookup
pub mod Placing
pub mod Adding
pub mod Known
pub mod Growing
pub mod Stating
pub mod Telling
pub mod TableOf
