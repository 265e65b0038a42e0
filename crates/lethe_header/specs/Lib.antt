pub mod Headers
pub mod Reading
pub mod Facts
pub use Rattle.lethe_tile.specs.Woven
pub use Rattle.lethe_tile.specs.Filters
