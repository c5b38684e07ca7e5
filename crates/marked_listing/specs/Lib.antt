pub mod Sky
pub mod Listing
