pub mod KLists
pub mod KAnswers
