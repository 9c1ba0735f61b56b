pub mod Machine
pub mod Types
