-- What the steps of a call leave.
use Rattle.std.specs.Prelude.{◌≡◌, ◌<◌, ℕ, ◌+◌, List, sum_by, None}
use Rattle.lethe_base.specs.Counts.{Rose}
use Rattle.lethe_base.specs.declared.refused.Refused.{Refused}
use Rattle.lethe_base.specs.declared.refused.Refused.TheVariants.{Fault, Stopped, Backwards, Pinned, NothingDue, Cancelled, Exhausted, ReadFault, NoMemory, Damaged}
use Rattle.lethe_build.specs.Drafts.{numbers_for}
use Rattle.lethe_build.specs.declared.draft.Draft.{Draft}
use Rattle.lethe_commit.specs.Switch.{IsTakenBack}
use Rattle.lethe_stored.specs.Stored.{Stored}
use Rattle.lethe_state.specs.Records.{IsLike, halted}
use Rattle.lethe_state.specs.Room.{AreDrafted, IsShortToFreeze}
use Rattle.lethe_state.specs.declared.state.State.{State}
use Rattle.lethe_core.specs.Asked.{failure_of}
use Rattle.lethe_core.specs.Reasons.{IsShort}
use Rattle.lethe_core.specs.Running.{Holds}
use Rattle.lethe_core.specs.View.{View}

-- the files, the retired pages, the jobs and the pins are as they were
pub record IsBeside (old new : View) : Type 0 where
  pub levels : new.levels ≡ old.levels
  pub retired : new.retired ≡ old.retired
  pub flights : new.flights ≡ old.flights
  pub begun : new.begun ≡ old.begun
  pub rounds : new.rounds ≡ old.rounds
  pub pins : new.pins ≡ old.pins

-- All is as it was, but for memory that was reserved and the jobs: a read gives what it gave, and a crash leaves nothing that it couldn't leave before.
pub record IsAsBefore (Tells : Type 0) (old new : View) : Type 0 where
  pub state : IsLike old.state new.state
  pub levels : new.levels ≡ old.levels
  pub retired : new.retired ≡ old.retired
  pub disk : Tells → IsTakenBack old.disk new.disk

-- A step that was refused, unless the disk failed in it, left all as it was.
abbrev pub IsUndone : Type 0 → View → View → Refused → Type 0
IsUndone Tells old new why = failure_of why ≡ None → IsAsBefore Tells old new

-- One that was refused, unless the disk failed in it, left what came of what was stored in this way.
abbrev pub IsDoneInPart : Type 0 → (Stored → Stored → Type 0) → View → View → Refused → Type 0
IsDoneInPart Tells Comes old new why = failure_of why ≡ None → Tells → (s : Stored) → Holds old s → (t : Stored) × Comes s t × Holds new t

-- How a step was hindered: the disk failed and the store is stopped, or there was no memory and what was done is taken back.
abbrev pub IsHindered : Type 0 → View → View → ℕ → Refused → Type 0
IsHindered Tells old new before (Fault place told_before told_now) =
    (place ≡ old.state.count + 1) × (told_before ≡ before) × (told_now ≡ new.faults) × Rose before new.faults × (new.state ≡ halted old.state) × IsBeside old new
IsHindered Tells old new before NoMemory = (new.state ≡ old.state) × IsBeside old new × (Tells → IsTakenBack old.disk new.disk)
IsHindered Tells old new before (Stopped at) = ⊥
IsHindered Tells old new before (Backwards clock) = ⊥
IsHindered Tells old new before (Pinned pin limit) = ⊥
IsHindered Tells old new before NothingDue = ⊥
IsHindered Tells old new before (Cancelled begun other) = ⊥
IsHindered Tells old new before (Exhausted last) = ⊥
IsHindered Tells old new before (ReadFault told_before told_now) = ⊥
IsHindered Tells old new before (Damaged name) = ⊥

-- nothing is changed but what the journal and the buffers are
pub record IsSteady (old new : State) : Type 0 where
  pub stopped : new.stopped ≡ old.stopped
  pub count : new.count ≡ old.count
  pub records : new.records ≡ old.records
  pub config : new.manifest.config ≡ old.manifest.config

-- Behind a flush no buffer is frozen and all else is as it was, but for the numbers of the files' objects and of the manifest, which were drawn.
pub record IsUnfrozenAfter (old new : State) : Type 0 where
  pub frozen : new.frozen ≡ None
  pub steady : IsSteady old new
  pub drafts : List Draft
  pub drafted : AreDrafted old drafts
  pub next : new.next ≡ old.next + sum_by numbers_for drafts + 1

-- With no buffer frozen, whether one was flushed or there was none: where the numbers of a freeze can't be drawn, those of making room couldn't.
pub record IsReadyToFreeze (old new : State) : Type 0 where
  pub frozen : new.frozen ≡ None
  pub steady : IsSteady old new
  pub short : IsShortToFreeze new → IsShort old

-- Behind a freeze the active segment has no record.
pub record IsEmptied (old new : State) : Type 0 where
  pub records : new.records ≡ 0
  pub stopped : new.stopped ≡ old.stopped
  pub count : new.count ≡ old.count
  pub config : new.manifest.config ≡ old.manifest.config

-- There is room for a record.
pub record IsReady (old new : State) : Type 0 where
  pub room : new.records < new.manifest.config.buffer
  pub stopped : new.stopped ≡ old.stopped
  pub count : new.count ≡ old.count
