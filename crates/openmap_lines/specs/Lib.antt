pub mod Text
pub mod Appended
pub mod Separated
pub mod Fits
