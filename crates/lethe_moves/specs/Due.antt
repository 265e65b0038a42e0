-- When nothing that a layout remembers is due.
use Rattle.std.specs.Prelude.{ℕ, ◌+◌, ◌<◌, ◌≤◌, All, Contains, IsSomeAnd}
use Rattle.lethe_base.specs.Layout.{Layout, Record}
use Rattle.lethe_base.specs.Held.{IsRecorded}
use Rattle.lethe_base.specs.Shapes.{all_files, shape_of}
use Rattle.lethe_base.specs.declared.config.Fields.{Fields}
use Rattle.lethe_base.specs.declared.pending.Pending.{Pending}
use Rattle.lethe_base.specs.declared.shape.FileFacts.{FileFacts}
use Rattle.lethe_fade.specs.LevelTimes.{level_deadline}
use Rattle.lethe_cover.specs.Changes.{HasTime}

-- what the file remembers is older than its level may have it
abbrev pub IsExpired : Fields → ℕ → FileFacts → Type 0
IsExpired fields clock file = IsSomeAnd file.oldest (λ oldest. oldest + level_deadline fields file.level ≤ clock)

-- At the time no file above the last level is expired, and no record of a segment and no pending erase is a threshold old.
pub record HasNothingDue (fields : Fields) (clock : ℕ) (l : Layout) : Type 0 where
  pub files : All (λ file. file.level < fields.levels → IsExpired fields clock file → ⊥) (all_files (shape_of l))
  pub records : (r : Record) (time : ℕ) → IsRecorded l r → HasTime r time → clock < time + fields.threshold
  pub erases : (erase : Pending) → Contains l.pending erase → clock < erase.time + fields.threshold
