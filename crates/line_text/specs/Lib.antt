pub mod Lines
pub mod Fields
pub mod Cursor
pub mod Taking
pub mod Writing
