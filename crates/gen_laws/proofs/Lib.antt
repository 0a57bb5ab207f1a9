pub mod Digits
pub mod Cut
pub mod Said
pub mod Calls
pub mod Rounds
pub mod Scripts
