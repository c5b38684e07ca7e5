pub mod Faces
pub mod Border
