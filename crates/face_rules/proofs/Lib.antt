pub mod Shapes
pub mod History
pub mod Recording
