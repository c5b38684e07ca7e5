pub mod Runs
pub mod Fields
pub mod Signs
