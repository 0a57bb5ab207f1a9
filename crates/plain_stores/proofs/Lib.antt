pub mod Keyed
pub mod Sums
pub mod Nodes
pub mod LeftBlocks
pub mod Behind
