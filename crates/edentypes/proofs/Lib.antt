pub mod Places
pub mod Outlines
pub mod ProcessLists
pub mod Fitting
