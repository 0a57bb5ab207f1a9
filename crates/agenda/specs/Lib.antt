pub mod Keys
pub mod Indexed
pub mod Marks
pub mod Places
