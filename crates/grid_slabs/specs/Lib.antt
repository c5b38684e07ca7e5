pub mod Rows
pub mod Clip
pub mod Filled
pub mod Parts
pub mod Runs
