pub mod Names
pub mod Shallow
pub mod Events
