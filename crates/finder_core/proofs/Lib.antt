mod Refused
pub mod Outcome
mod Passing
mod Flagged
pub mod Listings
mod Told
mod Answered
