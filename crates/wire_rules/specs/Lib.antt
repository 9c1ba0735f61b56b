pub mod Names
pub mod Rates
pub mod Header
pub mod Read
pub mod Write
pub mod Again
