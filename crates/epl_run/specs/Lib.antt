pub mod Blocks
pub mod Found
pub mod Acts
pub mod Begins
pub mod Upgraded
