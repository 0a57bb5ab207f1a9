pub mod Turns
pub mod Puts
pub mod Runs
