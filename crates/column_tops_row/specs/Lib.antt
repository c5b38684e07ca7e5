pub mod Tops
pub mod Laws
