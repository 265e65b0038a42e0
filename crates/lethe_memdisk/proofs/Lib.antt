pub mod Maps
pub mod Undoing
pub mod Keeping
pub mod Results
pub mod Crashing
pub mod Taking
pub mod Crossing
