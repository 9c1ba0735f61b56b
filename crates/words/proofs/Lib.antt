pub mod Words
pub mod Flipped
