pub mod Scheduling
pub mod Sizes
pub mod Exactly
pub mod Alike
pub mod Packets
pub mod Whole
