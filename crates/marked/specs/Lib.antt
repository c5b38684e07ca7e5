pub mod Example
pub mod Ground
pub mod Marked
