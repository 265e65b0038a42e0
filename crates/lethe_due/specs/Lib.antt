pub mod Due
pub mod Linked
