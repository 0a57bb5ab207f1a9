pub mod Words
pub mod Outcomes
pub mod Reading
pub mod Answers
