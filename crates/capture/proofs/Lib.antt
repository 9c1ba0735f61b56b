pub mod Following
pub mod Cutting
