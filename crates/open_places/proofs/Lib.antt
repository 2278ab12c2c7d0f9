pub mod Ordered
pub mod Searching
pub mod Cutting
pub mod Spanned
pub mod Deduped
pub mod Named
pub mod Whole
