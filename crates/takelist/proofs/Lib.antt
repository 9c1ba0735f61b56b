pub mod Blocks
pub mod Joining
