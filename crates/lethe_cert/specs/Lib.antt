pub mod Json
pub mod Text
