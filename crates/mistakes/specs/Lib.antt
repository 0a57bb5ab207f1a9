pub mod TypePlaces
pub mod Wanted
pub mod Columns
pub mod Answers
pub mod Words
