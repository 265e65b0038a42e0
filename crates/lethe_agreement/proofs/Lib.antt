pub mod Filters
pub mod Lines
pub mod Tiles
pub mod KeySets
pub mod Parts
pub mod HeaderLines
pub mod Steps
