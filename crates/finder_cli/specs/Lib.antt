pub mod Usage
pub mod Answers
pub mod Premises
pub mod Headline
pub mod Sentences
pub mod Examining
pub mod Listing
