pub mod Wants
pub mod Carrying
pub mod Called
pub mod Blank
pub mod HandedOn
pub mod Legally
pub mod Empty
