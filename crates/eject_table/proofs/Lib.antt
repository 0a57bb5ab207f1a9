mod Entries
mod Keys
mod Given
