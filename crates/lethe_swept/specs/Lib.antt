pub mod Left
pub mod Fits
pub mod Drafts
pub use Rattle.lethe_build.specs.Built
