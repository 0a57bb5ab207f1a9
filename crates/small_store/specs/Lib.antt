-- What a store has to be between two commands.
pub mod Ready
