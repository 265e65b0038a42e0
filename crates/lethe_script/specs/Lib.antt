pub mod Words
pub mod Fields
pub mod Slots
pub mod Grammar
pub mod Reading
pub mod Spelling
