pub mod Lists
pub mod Little
pub mod Tables
pub mod Rules
