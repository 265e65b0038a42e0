pub mod Spelled
pub mod Copied
pub mod Stays
