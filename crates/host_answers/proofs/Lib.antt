pub mod Tally
pub mod InC
