pub mod Moments
pub mod Objects
pub mod Quieting
pub mod Going
pub mod Causes
pub mod Continuing
