pub mod Reached
pub mod Generated
pub mod Pots
pub mod Rows
pub mod FrameRows
pub mod Index
pub mod Grouped
