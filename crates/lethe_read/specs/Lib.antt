pub mod Between
pub mod Found
pub mod Parts
pub mod Refusals
