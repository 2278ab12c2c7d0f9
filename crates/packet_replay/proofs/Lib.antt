pub mod Named
pub mod Listed
pub mod Ported
pub mod Opened
pub mod Framed
pub mod Stepping
pub mod Refusing
