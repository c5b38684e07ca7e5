pub mod Far
pub mod Grown
pub mod Slabs
pub mod Stands
