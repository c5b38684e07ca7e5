pub mod Blocks
pub mod Caves
pub mod World
pub mod Base
