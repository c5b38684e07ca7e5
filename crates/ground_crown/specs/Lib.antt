pub mod Crown
pub mod Radii
pub mod Slabs
