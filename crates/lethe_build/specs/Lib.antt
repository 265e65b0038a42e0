pub mod Built
pub mod Drafts
pub mod Parts
