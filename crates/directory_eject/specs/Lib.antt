pub mod View
pub mod Stages
pub mod Kept
