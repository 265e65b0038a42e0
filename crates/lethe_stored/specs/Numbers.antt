-- Which number of an object comes next in a directory, and how fast numbers are drawn.
use Rattle.std.specs.Prelude.{◌≡◌, ◌≤◌, ◌+◌, ◌⊎◌, ℕ, None}
use Rattle.lethe_disk.specs.Directory.{Directory}
use Rattle.lethe_disk.specs.Disk.{Seen}
use Rattle.lethe_disk.specs.Goes.{Goes}
use Rattle.lethe_commit.specs.Switch.{HasGreatest}
use Rattle.lethe_stored.specs.Stored.{Stored, IsCoherent}
use Rattle.lethe_stored.specs.Encodes.{Encodes}

-- the next number of what the directory encodes, or of a new store
abbrev pub IsNextNumber : Directory → ℕ → Type 0
IsNextNumber d next = (HasGreatest None d × (next ≡ 3)) ⊎ ((s : Stored) × IsCoherent s × Encodes d s × (next ≡ s.manifest.next))

-- Numbers keep pace with device calls, where `first` came next at the moment `began`: what each crash from the moment `since` on leaves has a next number that is
-- no greater than `first` and the calls between.
abbrev pub KeepsPace : ℕ → ℕ → ℕ → Seen → Type 0
KeepsPace first began since disk = (moment : ℕ) (c : Directory) → since ≤ moment → moment ≤ disk.moment → disk.left moment c → (next : ℕ) → IsNextNumber c next → next + began ≤ first + moment

-- P holds of all that a crash at a moment of the run may leave, and numbers keep pace with its calls, from this one on.
pub record GoesFrom (first : ℕ) (P : Directory → Type 0) (old new : Seen) : Type 0 where
  pub goes : Goes P old new
  pub pace : KeepsPace first old.moment old.moment new
