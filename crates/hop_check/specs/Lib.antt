pub mod Deciding
pub mod Carrying
pub mod Arriving
pub mod Visits
