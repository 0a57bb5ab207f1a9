pub mod Form
pub mod Spells
pub mod Spelling
pub mod Reading
pub mod Alphabet
