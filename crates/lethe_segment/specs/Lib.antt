pub mod Records
pub mod Segments
pub mod Heads
pub mod Holding
pub mod Refusals
