pub mod Wraps
pub mod Exactly
pub mod Places
pub mod Records
pub mod Counting
pub mod Lending
