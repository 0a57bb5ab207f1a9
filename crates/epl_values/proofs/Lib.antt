pub mod Applied
pub mod Growth
pub mod Operands
pub mod Places
pub mod Bindings
