pub mod Blocks
pub mod Changes
pub mod Greatest
pub mod Members
pub mod HeadSeen
pub mod BlockState
pub mod HeadState
pub mod TableState
