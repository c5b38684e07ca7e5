pub mod Place
pub mod Reach
pub mod Untouched
pub mod Laws
pub mod Counts
