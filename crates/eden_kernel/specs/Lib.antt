pub mod Stands
pub mod Turns
pub mod Boots
pub mod DiskTurns
pub mod Shows
pub mod Creations
pub mod Enabled
