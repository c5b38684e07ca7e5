pub mod Theorem
pub mod Undos
pub mod IdleLine
pub mod Accepted
pub mod Written
pub mod Witness
