pub mod Sums
pub mod Commands
pub mod Entries
