pub mod Filed
pub mod Holders
pub mod Woven
pub mod Merged
pub mod Ticked
pub mod Young
pub mod Leaving
