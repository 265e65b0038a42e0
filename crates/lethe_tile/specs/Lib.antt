pub mod Woven
pub mod Filters
