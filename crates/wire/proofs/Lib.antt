pub mod Shifting
pub mod Halves
pub mod Measuring
