mod Numbers
mod Index
mod Closed
mod Listed
mod Own
mod Mails
mod Filters
mod Agreed
mod Moves
mod Carried
mod Sent
mod Breaks
mod Once
pub mod CarriesLaws
