pub mod Bodies
pub mod Numbered
pub mod View
pub mod Refusals
pub mod Noted
