pub mod Ground
pub mod Marked
