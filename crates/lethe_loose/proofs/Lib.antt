pub mod Pages
pub mod NewStore
