pub mod Table
pub mod Creates
pub mod Changes
