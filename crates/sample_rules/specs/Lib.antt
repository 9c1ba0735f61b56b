pub mod Convert
pub mod Nearest
pub mod Bits
