pub mod Floats
pub mod Shapes
