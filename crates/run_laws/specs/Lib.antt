pub mod Besides
pub mod Spent
