pub mod Settled
pub mod Sentences
pub mod Headlined
pub mod Causes
pub mod Stopped
pub mod Statuses
pub mod Counted
mod Listed
mod Drilled
mod Examining
