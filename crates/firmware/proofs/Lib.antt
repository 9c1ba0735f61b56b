pub mod Following
pub mod Counts
