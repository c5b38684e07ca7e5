pub mod Text
pub mod Fits
pub mod Report
pub mod Laws
