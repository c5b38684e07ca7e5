pub mod Refusals
pub mod Numbers
pub mod Limits
pub mod Seeds
pub mod Answers
