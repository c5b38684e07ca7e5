pub mod Row
pub mod Places
pub mod Scaled
