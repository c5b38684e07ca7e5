pub mod Scaled
pub mod Halves
