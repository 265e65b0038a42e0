pub mod Rests
pub mod Rows
pub mod Deletes
pub mod Along
