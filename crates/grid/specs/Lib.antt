pub mod Cube
pub mod Grid
pub mod Count
pub mod Differing
