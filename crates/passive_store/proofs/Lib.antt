mod Getting
mod Jobs
mod Ordered
mod Pendings
mod Settling
mod Spelling
mod Writing
pub mod Changing
pub mod Headers
pub mod Images
pub mod Joining
pub mod LogKept
pub mod Marks
pub mod Openings
pub mod Parsing
pub mod Tails
pub mod Walk
pub mod Walking
