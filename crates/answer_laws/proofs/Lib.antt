pub mod Numbers
pub mod Besides
