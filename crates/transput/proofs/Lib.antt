mod SameText
mod Places
mod Filters
mod Keeping
