pub mod Cases
pub mod Deeper
pub mod Sizes
pub mod NotRep
pub mod Fields
pub mod OneSpelling
pub mod Values
pub mod Whole
