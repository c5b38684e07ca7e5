pub mod Caves
