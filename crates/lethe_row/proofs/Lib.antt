pub mod Rests
pub mod Recorded
pub mod Overs
pub mod Along
