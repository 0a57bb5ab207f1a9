pub mod Recorded
pub mod Showing
pub mod Stepped
pub mod Carrying
pub mod Calling
pub mod Placing
pub mod Going
pub mod Rooming
