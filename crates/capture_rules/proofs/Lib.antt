pub mod Long
pub mod Reading
pub mod Joining
pub mod Lengths
