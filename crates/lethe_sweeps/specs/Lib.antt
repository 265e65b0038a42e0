pub mod Swept
pub mod SweptSteps
pub use Rattle.lethe_follows.specs.Merged
pub use Rattle.lethe_advance.specs.Shown
