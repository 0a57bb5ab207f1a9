pub mod Records
pub mod Minds
pub mod Calls
pub mod Shown
