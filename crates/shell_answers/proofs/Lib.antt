pub mod Delivered
pub mod Answering
pub mod FewEntries
