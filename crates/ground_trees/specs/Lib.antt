pub mod Signs
pub mod Features
pub mod Kept
pub mod Slabs
