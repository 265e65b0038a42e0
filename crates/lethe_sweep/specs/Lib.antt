pub mod Fences
pub mod Sweeping
pub mod Modes
pub mod Steps
pub mod Damage
