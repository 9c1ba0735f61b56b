pub mod Names
pub mod Rates
pub mod Joining
pub mod Reading
pub mod Writing
pub mod RoundTrip
pub mod Spelling
pub mod Zeros
