pub mod Remade
pub mod Making
