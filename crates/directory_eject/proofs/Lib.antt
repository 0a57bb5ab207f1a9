pub mod Begins
pub mod Turns
pub mod Compared
pub mod Stored
pub mod Stays
