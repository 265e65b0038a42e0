pub mod Roomy
pub mod Runs
pub mod Scripts
