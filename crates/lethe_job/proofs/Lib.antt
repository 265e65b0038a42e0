pub mod Listed
pub mod Cited
pub mod Staying
pub mod Shaped
pub mod Named
pub mod Split
pub mod Planned
pub mod SweepPlanned
pub mod SweepMade
pub mod Next
pub mod Told
mod Adding
mod Pieces
pub mod Hulls
pub mod Claimed
pub use Rattle.lethe_sweeps.proofs.SweptFor
pub use Rattle.lethe_sweeps.proofs.SweptRising
pub use Rattle.lethe_sweeps.proofs.SweptErases
pub use Rattle.lethe_build.proofs.Zips
