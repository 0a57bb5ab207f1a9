pub mod Body
pub mod Bodies
pub mod Places
pub mod Fitting
pub mod View
