pub mod Floats
pub mod Column
pub mod Heights
