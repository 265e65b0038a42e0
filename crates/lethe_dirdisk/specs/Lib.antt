pub mod FileNames
pub mod Faults
pub mod Lengths
pub mod Strays
