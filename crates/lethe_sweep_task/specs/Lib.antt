pub mod Outcome
pub mod Drafted
pub use Rattle.lethe_sweep.specs.Fences
pub use Rattle.lethe_sweep.specs.Damage
pub use Rattle.lethe_sweep.specs.Sweeping
