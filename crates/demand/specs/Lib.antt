pub mod Took
pub mod Shows
pub mod Answers
pub mod Sender
pub mod Bench
pub mod Example
