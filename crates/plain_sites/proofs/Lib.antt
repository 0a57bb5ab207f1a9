pub mod Entries
pub mod Sites
pub mod Deliveries
pub mod StoreTurns
pub mod Turning
pub mod Joins
pub mod Awake
