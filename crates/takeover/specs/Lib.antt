pub mod AsMade
pub mod Demand
pub mod Undos
pub mod Witness
pub mod IdleLine
pub mod Accepted
