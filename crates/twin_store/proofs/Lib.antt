mod Agreeing
mod Alike
mod Aloning
mod Bringing
mod Carrying
pub mod Changing
mod Choosing
mod Clearing
mod Filling
pub mod Finding
mod Going
mod Levelling
mod Looking
mod Opened
mod Openings
mod Raising
mod Reading
pub mod Rooming
mod Serving
mod Sided
mod Siding
mod Stopping
pub mod Vouching
mod Walking
