pub mod Grown
pub mod Far
pub mod Slabs
