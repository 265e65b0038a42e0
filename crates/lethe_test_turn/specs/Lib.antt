pub mod Sums
pub mod Fits
pub mod Sessions
