-- The rules of a type: what is broken, and where.
pub mod First
pub mod Scopes
pub mod KindsOf
pub mod InExpressions
pub mod InStatements
pub mod InItems
pub mod OfTypes
pub mod Limits
