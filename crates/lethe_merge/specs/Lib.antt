pub mod Merge
pub mod Sources
