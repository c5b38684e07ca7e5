pub mod Hash
pub mod Noise
