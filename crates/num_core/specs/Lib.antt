pub mod Wrap
pub mod Modulo
pub mod Num
