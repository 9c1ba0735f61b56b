pub mod Judging
pub mod Following
pub mod Zeros
