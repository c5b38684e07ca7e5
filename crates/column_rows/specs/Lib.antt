pub mod Rows
pub mod Fields
