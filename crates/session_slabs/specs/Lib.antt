pub mod Slabs
pub mod Notes
pub mod Entries
