pub mod Searched
pub mod Placed
pub mod Without
pub mod Walked
pub mod Relinked
