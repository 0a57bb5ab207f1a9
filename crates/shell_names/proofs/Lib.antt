mod Tables
mod Depths
mod Results
pub mod Worlds
pub mod Others
