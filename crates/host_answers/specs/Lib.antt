pub mod Answers
pub mod AnyOrder
