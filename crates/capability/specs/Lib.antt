pub mod Uids
pub mod Rights
pub mod Capability
