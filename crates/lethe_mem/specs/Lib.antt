pub mod Buffered
pub mod Order
pub mod Pairs
pub mod Places
