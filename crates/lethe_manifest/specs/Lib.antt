pub mod Manifests
pub mod Numbers
pub mod Parts
pub mod Reading
pub mod Followers
