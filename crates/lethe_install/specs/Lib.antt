pub mod Placed
pub mod Inputs
pub mod Left
pub mod Installed
pub mod Replaced
pub mod Outcomes
