pub mod Entries
pub mod Filling
pub mod Tasks
pub mod Keys
pub mod Rests
