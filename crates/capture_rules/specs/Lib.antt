pub mod Records
pub mod Fold
