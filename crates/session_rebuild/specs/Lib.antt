pub mod Laid
pub mod Grounds
