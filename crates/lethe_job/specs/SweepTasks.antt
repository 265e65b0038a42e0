-- What a job that sweeps is to do.
use Rattle.std.specs.Prelude.{◌≡◌, ◌<◌, ℕ, ◌==◌, nat_le, ◌&&◌, ◌||◌, if◌then◌else◌, Bool, IsTrue, not, List, [], ◌∷◌, Contains, Some}
use Rattle.std.specs.List.{list_any}
use Rattle.lethe_base.specs.Spent.{left_erases}
use Rattle.lethe_base.specs.declared.pending.Pending.{Pending}
use Rattle.lethe_fade.specs.Spans.{KeyRange, overlaps}
use Rattle.lethe_fade.specs.declared.plan.Plan.{Plan}
use Rattle.lethe_stored.specs.Files.{StoredFile}
use Rattle.lethe_stored.specs.Stored.{Stored, layout_of}
use Rattle.lethe_sweeps.specs.Swept.{HasNoneBelow, IsSweepIn, StoredSweep}
use Rattle.lethe_sweep_task.specs.Outcome.{PlainSweep}
use Rattle.lethe_job.specs.Chosen.{lies_below, range_in}

-- the file has that number, and stands in one of the levels up to the last
abbrev pub is_filed : ℕ → ℕ → StoredFile → Bool
is_filed levels number file = nat_le file.level levels && file.header.no == number

-- the files that stand behind the first one of that number
abbrev pub behind : ℕ → List StoredFile → List StoredFile
behind number [] = []
behind number (file ∷ files) = if file.header.no == number then files else behind number files

-- the file is of level 0, and overlaps a range
abbrev pub is_first_over : KeyRange → StoredFile → Bool
is_first_over keys file = file.level == 0 && overlaps keys (range_in file)

abbrev pub any_overlaps : KeyRange → List StoredFile → Bool
any_overlaps keys files = list_any (is_first_over keys) files

-- no deeper file, and of level 0 no older one, overlaps the file's keys
abbrev pub is_alone : List StoredFile → StoredFile → Bool
is_alone files file = not (lies_below file.level (range_in file) files || (file.level == 0 && any_overlaps (range_in file) (behind file.header.no files)))

abbrev pub sweep_in : Plan → List StoredFile → StoredFile → Pending → PlainSweep
sweep_in plan files file erase = record { plan = plan; file = file; erase = erase; alone = is_alone files file }

-- It sweeps a file that is stored by the oldest pending erase that the file isn't swept of.
pub record IsSweepTask (s : Stored) (w : StoredSweep) (task : PlainSweep) : Type 0 where
  pub sweep : IsSweepIn s w task.erase task.alone
  pub file : w.file ≡ task.file

-- The task of a plan: the plan names the file and the erase. It counts as alone wherever it is.
pub record IsPlannedSweep (s : Stored) (task : PlainSweep) : Type 0 where
  pub w : StoredSweep
  pub is : IsSweepTask s w task
  pub number : w.file.header.no ≡ task.plan.file
  pub erase : task.plan.erase ≡ Some task.erase.seq
  pub alone : HasNoneBelow s w → IsTrue task.alone

-- The plan of that file and that place names a sweep: the first erase that is still to be done has the place, and the file isn't swept of it.
pub record NamesSweep (s : Stored) (number place : ℕ) : Type 0 where
  pub erase : Pending
  pub later : List Pending
  pub first : left_erases (layout_of s) ≡ erase ∷ later
  pub place_is : erase.seq ≡ place
  pub file : StoredFile
  pub there : Contains s.files file
  pub number_is : file.header.no ≡ number
  pub unswept : file.swept < place
