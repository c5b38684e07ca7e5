pub mod Counts
pub mod Radii
