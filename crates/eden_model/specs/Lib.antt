pub mod Map
pub mod Crew
pub mod Lines
pub mod Traffic
