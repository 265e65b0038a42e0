pub mod Held
pub mod Linked
