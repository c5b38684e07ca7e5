pub mod Laid
pub mod Net
pub mod Altered
