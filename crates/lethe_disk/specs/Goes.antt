-- What holds at each moment of a run of device calls.
use Rattle.std.specs.Prelude.{◌≤◌, ◌↔◌, ℕ}
use Rattle.lethe_disk.specs.Directory.{Directory}
use Rattle.lethe_disk.specs.Disk.{Seen}

-- P holds of all that a crash at a moment of the run may leave, and what a crash before it may leave is neither more nor less. So such runs
-- can be joined.
pub record Goes (P : Directory → Type 0) (old new : Seen) : Type 0 where
  pub later : old.moment ≤ new.moment
  pub past : (m : ℕ) (c : Directory) → m ≤ old.moment → (new.left m c ↔ old.left m c)
  pub each : (m : ℕ) (c : Directory) → old.moment ≤ m → m ≤ new.moment → new.left m c → P c
