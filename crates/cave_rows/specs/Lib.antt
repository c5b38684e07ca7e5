pub mod Layers
pub mod Fields
pub mod Laws
