pub mod Ground
pub mod Facts
pub mod Laws
