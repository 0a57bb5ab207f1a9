pub mod Others
pub mod Scheduled
pub mod Keys
pub mod Touched
