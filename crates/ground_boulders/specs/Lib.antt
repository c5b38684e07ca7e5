pub mod Signs
pub mod Boulders
