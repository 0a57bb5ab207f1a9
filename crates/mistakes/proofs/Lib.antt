pub mod BadTypes
pub mod Sifting
pub mod TypeParts
