pub mod Places
pub mod Lines
pub mod Bounds
pub mod Entries
pub mod Made
pub mod Objects
pub mod Taken
