pub mod Replies
pub mod Calls
pub mod Equal
