pub mod Over
pub mod Theorem
