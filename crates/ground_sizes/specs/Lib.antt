pub mod Over
pub mod AsMade
pub mod Statement
pub mod Witness
