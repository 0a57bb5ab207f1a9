pub mod View
pub mod Changes
