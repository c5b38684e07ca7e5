pub mod Bools
pub mod Naturals
pub mod Integers
pub mod Words
pub mod Lists
pub mod Paths
