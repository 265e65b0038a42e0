-- What is said of a run of device calls, from one time to a later one.
use Rattle.std.specs.Prelude.{◌≤◌, ◌↔◌, ℕ}
use Rattle.lethe_disk.specs.Directory.{Directory}
use Rattle.lethe_disk.specs.Disk.{Seen, Image}

-- Device calls were made: what a crash before them may leave is neither more nor less.
pub record Continues (old new : Seen) : Type 0 where
  pub later : old.moment ≤ new.moment
  pub past : (m : ℕ) (c : Directory) → m ≤ old.moment → (new.left m c ↔ old.left m c)

-- A run. What a crash before it may leave is neither more nor less, and what a crash at each moment of it
-- may leave came by R from an image that there was at its start.
pub record Leads (R : Directory → Directory → Type 0) (old new : Seen) : Type 0 where
  pub later : old.moment ≤ new.moment
  pub past : (m : ℕ) (c : Directory) → m ≤ old.moment → (new.left m c ↔ old.left m c)
  pub each : (m : ℕ) (c : Directory) → old.moment ≤ m → m ≤ new.moment → new.left m c → (d : Directory) × Image old d × R d c

-- each image at the run's end came by S from one at its start
abbrev pub Now : (Directory → Directory → Type 0) → Seen → Seen → Type 0
Now S old new = (c : Directory) → Image new c → (d : Directory) × Image old d × S d c

-- P holds of all that a crash at a moment of the run may leave
abbrev pub Throughout : (Directory → Type 0) → Seen → Seen → Type 0
Throughout P old new = (m : ℕ) (c : Directory) → old.moment ≤ m → m ≤ new.moment → new.left m c → P c

-- a run by R at each of its moments, and by S at its end: what a run of several calls is known by
pub record After (R S : Directory → Directory → Type 0) (old new : Seen) : Type 0 where
  pub each : Leads R old new
  pub last : Now S old new
