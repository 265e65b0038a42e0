pub mod Loose
pub mod Example
