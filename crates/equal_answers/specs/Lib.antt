pub mod Calls
pub mod Alike
