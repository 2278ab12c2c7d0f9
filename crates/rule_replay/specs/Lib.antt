pub mod Replaying
pub mod Slots
pub mod Ends
pub mod Carrying
pub mod Laws
