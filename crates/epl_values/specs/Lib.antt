pub mod Comes
pub mod Variables
