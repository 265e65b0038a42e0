-- What is seen of a disk, and what one device call does to that.
use Rattle.std.specs.Prelude.{◌≡◌, ◌≤◌, ◌+◌, ◌↔◌, ℕ, Result, OnOk, IsErrOf}
use Rattle.lethe_base.specs.Counts.{Rose}
use Rattle.lethe_disk.specs.declared.disk.DiskRefused.{DiskRefused}
use Rattle.lethe_disk.specs.declared.disk.DiskRefused.TheVariants.{Failed, NoMemory}
use Rattle.lethe_disk.specs.Directory.{Directory}

-- A disk at one time: its directory as a read gives it, the moment, which is how many device calls it
-- has taken, and the directories that a crash at each moment up to now may leave.
pub record Seen : Type 1 where
  pub directory : Directory
  pub moment : ℕ
  pub left : ℕ → Directory → Type 0

-- an image: what a crash now may leave
abbrev pub Image : Seen → Directory → Type 0
Image disk c = disk.left disk.moment c

-- a crash now leaves what a read gives and nothing else
abbrev pub IsSynced : Seen → Type 0
IsSynced disk = (c : Directory) → Image disk c → c ≡ disk.directory

-- Nothing was done: the directory, the moment and all that a crash may leave are as before.
pub record IsIdle (old new : Seen) : Type 0 where
  pub directory : new.directory ≡ old.directory
  pub moment : new.moment ≡ old.moment
  pub left : (m : ℕ) (c : Directory) → (new.left m c ↔ old.left m c)

-- One device call. At Ok it is one moment, and else at most one.
pub record Takes {T : Type 0} (step : Directory → Directory → Type 0) (result : Result T DiskRefused) (old new : Seen) : Type 0 where
  pub later : old.moment ≤ new.moment
  pub soon : new.moment ≤ old.moment + 1
  pub counted : OnOk result (new.moment ≡ old.moment + 1)
  -- what a crash up to the moment before the call may leave is neither more nor less
  pub past : (m : ℕ) (c : Directory) → m ≤ old.moment → (new.left m c ↔ old.left m c)
  -- each image was one before the call, but for the step
  pub images : (c : Directory) → Image new c → (d : Directory) × Image old d × step d c
  -- want of memory is no moment and changes nothing
  pub no_memory : IsErrOf result NoMemory → (new.moment ≡ old.moment) × (new.directory ≡ old.directory)

-- The count of faults doesn't fall, and `Failed` comes only where it rose in the call.
pub record HasCause {T : Type 0} (before now : ℕ) (result : Result T DiskRefused) : Type 0 where
  pub later : before ≤ now
  pub failed : IsErrOf result Failed → Rose before now
