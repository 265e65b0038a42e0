pub mod Firsts
pub mod Spelled
pub mod OneAnswer
pub mod Truth
