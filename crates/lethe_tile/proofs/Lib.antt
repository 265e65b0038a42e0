pub mod Bits
pub mod Parts
pub mod Orders
pub mod Pages
pub mod Unique
