pub mod Wrap
pub mod Modulo
