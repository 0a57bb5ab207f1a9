pub mod View
pub mod Forms
pub mod Held
pub mod Fitting
