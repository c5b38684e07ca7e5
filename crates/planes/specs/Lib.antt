pub mod Order
pub mod Rule
pub mod Planes
pub mod Sizes
