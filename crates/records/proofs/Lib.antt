pub mod Packing
pub mod Laid
pub mod Taking
pub mod Turns
pub mod Runs
