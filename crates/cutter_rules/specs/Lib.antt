pub mod Schedule
pub mod Largest
pub mod Cut
