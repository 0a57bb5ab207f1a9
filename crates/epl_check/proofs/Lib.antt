pub mod ArgumentTests
pub mod Doubled
pub mod DoubledNumbers
pub mod Items
pub mod Least
pub mod Named
pub mod Rows
pub mod BindingTurns
