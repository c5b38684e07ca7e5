pub mod Runs
pub mod Octaves
pub mod Going
