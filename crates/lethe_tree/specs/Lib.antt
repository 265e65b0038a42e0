pub mod Grown
pub mod Looked
pub mod Settled
pub mod Shape
pub mod Tree
