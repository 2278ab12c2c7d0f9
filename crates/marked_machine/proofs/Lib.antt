pub mod Among
pub mod GoingOn
pub mod Running
pub mod Within
