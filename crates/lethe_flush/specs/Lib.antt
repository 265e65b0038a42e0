pub mod Clear
pub mod Made
pub mod Flushed
pub mod Added
pub mod ByPlace
pub use Rattle.lethe_follows.specs.Merged
