pub mod Rule
pub mod Planes
pub mod Bijection
pub mod Undo
pub mod Sizes
pub mod RoundTrip
pub mod Vectors
