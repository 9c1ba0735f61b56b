pub mod Fields
pub mod Keeping
pub mod Back
pub mod Given
