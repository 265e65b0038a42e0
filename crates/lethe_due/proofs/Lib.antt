pub mod Ordered
pub mod Without
pub mod Walked
pub mod Relinked
