pub mod Status
pub mod Through
pub mod Pages
pub mod Printed
