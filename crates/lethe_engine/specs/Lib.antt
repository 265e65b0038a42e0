pub mod StandsFor
pub mod Refusals
pub mod Answers
pub mod Rows
pub mod Work
pub mod Jobs
pub mod Pins
pub mod Reads
pub mod Capped
pub mod Stats
pub mod Opening
pub mod Ticks
pub mod Gone
pub mod Certificates
pub use Rattle.lethe_row.specs.declared.asking.Asked
pub use Rattle.lethe_row.specs.Along
pub use Rattle.lethe_row.specs.Rows as ChangeRows
