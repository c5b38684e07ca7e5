mod Forms
pub mod Asks
