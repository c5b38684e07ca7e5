pub mod Told
pub mod Sessions
