pub mod Square
pub mod Sums
