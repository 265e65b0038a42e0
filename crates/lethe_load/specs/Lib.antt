pub mod Loaded
pub mod Damaged
pub mod Refused
pub mod Progress
