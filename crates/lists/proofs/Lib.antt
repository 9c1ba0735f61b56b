pub mod Branches
pub mod Tables
pub mod Checked
pub mod Rules
pub mod Lists
pub mod Loops
pub mod Little
