pub mod Reached
pub mod Machines
pub mod Room
pub mod Runs
pub mod Walks
pub mod Laws
