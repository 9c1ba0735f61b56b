pub mod Copying
pub mod Overlaid
