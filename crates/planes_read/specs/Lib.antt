pub mod Reading
pub mod Restored
