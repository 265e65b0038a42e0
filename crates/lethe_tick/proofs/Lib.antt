pub mod Buffers
pub mod Moving
pub mod Ripe
pub mod Last
