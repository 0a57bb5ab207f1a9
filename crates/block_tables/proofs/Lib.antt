mod Marks
mod Ending
pub mod Closing
pub mod Heading
pub mod Greatest
pub mod Walks
pub mod Slots
pub mod OpenHeads
pub mod Listing
pub mod Ordered
pub mod Taking
