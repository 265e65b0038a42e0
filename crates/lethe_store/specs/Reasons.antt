-- Why a session's calls are refused.
use Rattle.std.specs.Prelude.{◌≡◌, ◌≤◌, ◌<◌, ℕ, Some}
use Rattle.lethe_base.specs.Counts.{Rose}
use Rattle.lethe_base.specs.Limits.{max_place}
use Rattle.lethe_base.specs.declared.refused.Refused.{Refused}
use Rattle.lethe_base.specs.declared.refused.Refused.TheVariants.{Fault, Stopped, Backwards, Pinned, NothingDue, Cancelled, Exhausted, ReadFault, NoMemory, Damaged}
use Rattle.lethe_turn.specs.Seats.{count_of}
use Rattle.lethe_turn.specs.declared.view.View.{View}
use Rattle.lethe_store.specs.declared.entry.Entry.{Entry}
use Rattle.lethe_store.specs.StoreViews.{StoreView}
use Rattle.lethe_store.specs.Entries.{stopped_behind}

-- the counts of a port: of its fetches, and of those that failed
pub record PortCounts : Type 0 where
  pub fetches : ℕ
  pub faults : ℕ

abbrev pub counts_of : ℕ → ℕ → PortCounts
counts_of fetches faults = record { fetches = fetches; faults = faults }

-- neither fell
abbrev pub AreLater : PortCounts → PortCounts → Type 0
AreLater before now = (before.fetches ≤ now.fetches) × (before.faults ≤ now.faults)

-- Why a read is refused, by the counts of the session's own port: a fetch of its own failed, where such ports can fail; there was no memory; or on a disk that tells nothing a page that it
-- fetched isn't the one that was written.
abbrev pub HasReasonOfRead : Type 0 → Type 0 → PortCounts → PortCounts → Refused → Type 0
HasReasonOfRead Tells PortsFail before now (ReadFault told_before told_now) = PortsFail × (told_before ≡ before.faults) × (told_now ≡ now.faults) × Rose told_before told_now
HasReasonOfRead Tells PortsFail before now NoMemory = Unit {0}
HasReasonOfRead Tells PortsFail before now (Damaged name) = (Tells → ⊥) × (before.fetches < now.fetches)
HasReasonOfRead Tells PortsFail before now (Fault place told_before told_now) = ⊥
HasReasonOfRead Tells PortsFail before now (Stopped at) = ⊥
HasReasonOfRead Tells PortsFail before now (Backwards clock) = ⊥
HasReasonOfRead Tells PortsFail before now (Pinned pin limit) = ⊥
HasReasonOfRead Tells PortsFail before now NothingDue = ⊥
HasReasonOfRead Tells PortsFail before now (Cancelled begun other) = ⊥
HasReasonOfRead Tells PortsFail before now (Exhausted last) = ⊥

module _ {M V : Type 0} where
  -- by what it has seen the store is stopped by the change at this place, which failed, or was opened so
  abbrev pub IsStoppedAt : (V → StoreView) → View V Entry M → ℕ → Type 0
  IsStoppedAt see v at = (o : V) → v.opened ≡ Some o → stopped_behind (see o).view.state.stopped (see o).view.state.count v.seen ≡ Some at

  -- Why a change is refused, by what the session has seen then: the disk failed in it, its count of faults rose, and the change stands last there; a change that it has seen there failed; the
  -- places or numbers are used up; or as for a read, where the store read files to make room.
  abbrev pub HasReasonOfChange : Type 0 → Type 0 → (V → StoreView) → View V Entry M → PortCounts → PortCounts → Refused → Type 0
  HasReasonOfChange Tells PortsFail see v before now (Fault place told_before told_now) = (place ≡ count_of v) × Rose told_before told_now
  HasReasonOfChange Tells PortsFail see v before now (Stopped at) = IsStoppedAt see v at
  HasReasonOfChange Tells PortsFail see v before now (Exhausted last) = last ≡ max_place
  HasReasonOfChange Tells PortsFail see v before now (ReadFault told_before told_now) = HasReasonOfRead Tells PortsFail before now (ReadFault told_before told_now)
  HasReasonOfChange Tells PortsFail see v before now (Damaged name) = HasReasonOfRead Tells PortsFail before now (Damaged name)
  HasReasonOfChange Tells PortsFail see v before now NoMemory = Unit {0}
  HasReasonOfChange Tells PortsFail see v before now (Backwards clock) = ⊥
  HasReasonOfChange Tells PortsFail see v before now (Pinned pin limit) = ⊥
  HasReasonOfChange Tells PortsFail see v before now NothingDue = ⊥
  HasReasonOfChange Tells PortsFail see v before now (Cancelled begun other) = ⊥
