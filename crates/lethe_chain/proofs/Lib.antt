mod Bytes
pub mod Records
mod Waiting
mod Opening
