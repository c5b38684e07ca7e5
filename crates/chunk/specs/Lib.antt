pub mod Replies
pub mod Tests
pub mod Calls
pub mod Moves
pub mod Altered
