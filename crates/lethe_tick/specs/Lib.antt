pub mod Ripened
pub mod Last
pub mod Certified
