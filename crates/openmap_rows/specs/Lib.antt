pub mod Rows
pub mod Lays
