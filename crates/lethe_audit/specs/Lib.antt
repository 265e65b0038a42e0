pub mod Firsts
pub mod Objects
pub mod Held
pub mod Audited
pub mod Carried
