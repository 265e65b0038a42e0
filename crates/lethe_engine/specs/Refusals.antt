-- Why the calls of a store are refused.
use Rattle.std.specs.Prelude.{◌≡◌, ◌≢◌, ◌<◌, ◌⊎◌, ℕ, [], Some, None}
use Rattle.lethe_base.specs.declared.refused.Refused.{Refused}
use Rattle.lethe_base.specs.declared.refused.Refused.TheVariants.{Fault, Stopped, Backwards, Pinned, NothingDue, Cancelled, Exhausted, ReadFault, NoMemory, Damaged}
use Rattle.lethe_disk.specs.declared.disk.Disk.{Ghosts}
use Rattle.lethe_stored.specs.Stored.{Stored}
use Rattle.lethe_state.specs.declared.state.State.{State}
use Rattle.lethe_job.specs.declared.job.Job.{Job}
use Rattle.lethe_core.specs.Merges.{HasNoMerge}
use Rattle.lethe_core.specs.Reasons.{HasReason, IsShortOfRoom, IsUnreadable}
use Rattle.lethe_core.specs.Running.{Holds}
use Rattle.lethe_core.specs.View.{View}
use Rattle.lethe_engine.specs.Jobs.{IsPast}

-- Work: an earlier call failed, the places are used up or numbers are short, the disk failed in this call, or there was no memory.
abbrev pub HasReasonOfWork : Type 0 → View → View → Refused → Type 0
HasReasonOfWork Short old new why = HasReason Short old.state old.faults new.faults why

-- A call of a job: the same; or nothing has failed, and the job is of an earlier round.
abbrev pub HasReasonOfJob : {D Page Port : Type 0} {kind : Ghosts D Page Port} → Type 0 → Job D Page Port kind → View → View → Refused → Type 0
HasReasonOfJob Short job old new why = HasReasonOfWork Short old new why ⊎ (old.state.stopped ≡ None) × IsPast old job × (why ≡ Cancelled job.round old.rounds)

-- the active segment has fewer records than a buffer may have, as the store sees it
abbrev pub SeesRoom : State → Type 0
SeesRoom state = state.records < state.manifest.config.buffer

-- A change: the same, where only one without room may be short of numbers; or there was no room, and reading a file to make it was refused, by the port's counts of faults
-- before and now.
abbrev pub HasReasonAt : Type 0 → Type 0 → State → ℕ → View → ℕ → ℕ → Refused → Type 0
HasReasonAt Tells PortsFail state faults new before now why =
    HasReason ((SeesRoom state → ⊥) × IsShortOfRoom Tells state new) state faults new.faults why
    ⊎ ((SeesRoom state → ⊥) × (state.stopped ≡ None) × IsUnreadable Tells PortsFail before now why)

abbrev pub HasReasonOfChange : Type 0 → Type 0 → View → View → ℕ → ℕ → Refused → Type 0
HasReasonOfChange Tells PortsFail old new before now why = HasReasonAt Tells PortsFail old.state old.faults new before now why

-- The begin of a job: an earlier call failed, a job is in flight or nothing is due, or there was no memory.
abbrev pub HasReasonOfBegin : Type 0 → View → Refused → Type 0
HasReasonOfBegin Tells view (Stopped at) = view.state.stopped ≡ Some at
HasReasonOfBegin Tells view NothingDue = (view.state.stopped ≡ None) × ((view.flights ≢ []) ⊎ (Tells → (s : Stored) → Holds view s → HasNoMerge s))
HasReasonOfBegin Tells view NoMemory = Unit {0}
HasReasonOfBegin Tells view (Fault place before after) = ⊥
HasReasonOfBegin Tells view (Backwards clock) = ⊥
HasReasonOfBegin Tells view (Pinned pin limit) = ⊥
HasReasonOfBegin Tells view (Cancelled begun now) = ⊥
HasReasonOfBegin Tells view (Exhausted last) = ⊥
HasReasonOfBegin Tells view (ReadFault before after) = ⊥
HasReasonOfBegin Tells view (Damaged name) = ⊥
