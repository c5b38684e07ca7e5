pub mod Layers
pub mod Noise
