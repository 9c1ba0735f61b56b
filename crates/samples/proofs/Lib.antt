pub mod Narrowing
pub mod Aligned
pub mod Moves
pub mod Converting
pub mod Slotting
