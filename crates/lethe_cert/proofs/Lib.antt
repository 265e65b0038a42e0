mod Again
mod Digits
mod Members
mod Texts
pub mod Told
